pub mod Printed
pub mod Said
