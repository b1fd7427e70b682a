pub mod Entity
