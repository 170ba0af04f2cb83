mod Basics
mod Links
mod Names
mod Paths
mod Positions
mod Scalars
mod Sizes
mod Terms
