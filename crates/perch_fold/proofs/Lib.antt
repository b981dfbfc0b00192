pub mod VerbLaws
