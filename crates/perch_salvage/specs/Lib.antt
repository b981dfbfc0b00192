pub mod Verb
