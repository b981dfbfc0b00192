pub mod Forever
