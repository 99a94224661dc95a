-- What value trees, rows and tables mean, and what is wrong with them. Read Values, Rows, Cells and Tables first.
pub mod Cells
pub mod Reading
pub mod Rows
pub mod Streams
pub mod Tables
pub mod Values
