-- What texts write for the ports of designs, and why they write nothing. Read Queries.
pub mod Queries
