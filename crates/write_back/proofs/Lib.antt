pub mod Lists
pub mod Columns
pub mod SchemasRead
pub mod Assigned
