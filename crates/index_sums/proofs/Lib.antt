mod Products
mod Reordered
mod Sums
