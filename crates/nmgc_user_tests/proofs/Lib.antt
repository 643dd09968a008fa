pub mod Nones
