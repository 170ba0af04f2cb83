mod Ranges
mod Sets
