-- That receiving and answering do what the tables of pages 01 and 02 say. To be read, each with the definitions that it cites: Verdict (receiving ends as the page
-- says, for any relay), Memory (and remembers what it says), Exactly (each number exactly where its row decides; some in the page's own words; the copies),
-- Sought (the route taken; what a port that is granted a copy has passed), Floods (page 02, W-207: a flooded datagram), Headers (page 02, W-214: the
-- header that each port gets), and of echo replies (page 02, W-203) Answered (which requests are answered, and by what) and Replies (what becomes of a reply).
-- The others serve these: Sets, sets of ports as tests; Ports, what one walk over the ports gathers; Pairs, what the pairs say; Copies, Best, Local
-- and Lines, the tables one by one; Halves, both halves together; Rows, the law of all rows; Small, that sets have no port over 7; Legs, the headers
-- port by port; Going, a reply by the line of its route.
pub mod Sets
pub mod Ports
pub mod Pairs
pub mod Copies
pub mod Best
pub mod Local
pub mod Lines
pub mod Halves
pub mod Small
pub mod Legs
pub mod Verdict
pub mod Memory
pub mod Rows
pub mod Exactly
pub mod Sought
pub mod Floods
pub mod Headers
pub mod Answered
pub mod Going
pub mod Replies
