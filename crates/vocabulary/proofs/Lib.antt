pub mod SumsOverLists
