pub mod Dispatchers
