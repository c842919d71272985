pub mod Dummies
