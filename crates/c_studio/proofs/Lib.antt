pub mod Done
mod Examples
