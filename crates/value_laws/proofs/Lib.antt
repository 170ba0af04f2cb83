mod Entries
mod Pieces
