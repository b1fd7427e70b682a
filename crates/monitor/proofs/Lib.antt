pub mod Form
pub mod Empty
pub mod Look
pub mod Finish
pub mod Written
pub mod ShowLaws
pub mod PreviewLaws
pub mod AuditLaws
