pub mod Due
pub mod Rows
pub mod TypeTables
pub mod ValuesIn
pub mod RowsIn
pub mod Pairs
