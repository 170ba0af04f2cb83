pub mod NoIndex
