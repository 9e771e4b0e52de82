pub mod Definite
pub mod MarkedCases
