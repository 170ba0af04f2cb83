mod Meanings
mod Typings
