pub mod Meanings
pub mod Outline
