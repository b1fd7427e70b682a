pub mod Share
pub mod Types
pub mod HandingInto
pub mod HandingIntoPlain
