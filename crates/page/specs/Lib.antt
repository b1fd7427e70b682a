pub mod Page
pub mod Claims
