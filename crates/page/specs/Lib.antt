-- Page 01's verdict as tables, what is remembered of a datagram, and what it is to end as they say; page 02's echo replies likewise.
pub mod Table
pub mod Memory
pub mod Ends
pub mod Sought
pub mod Replies
