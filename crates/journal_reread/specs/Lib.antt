pub mod Rereading
