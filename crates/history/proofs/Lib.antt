-- Laws over histories of one mission. To be read, each by itself with the definitions it cites: Counters and Sums (every counter; in the customer's words),
-- Ledger, Line, Takes and Foretold (the copies of a port: their ledger, which wait, which is handed out, and at which take), Domain and Meaning (what a copy
-- names where it goes out), Ports (the board is the operator's, and a port is written once), Reach, Keys, Ranges and Holds (the settings), Search and
-- SearchBack (the route that an address takes, and as C reads it), Answered and Listed (each answer is one that the page lists), Refusals, Untaken and Transport
-- (what a refusal leaves; the TP-ID alone), Replies (echo requests answered), Floods (the pairs, the seconds, and that a pair is flooded on once), Marked, WrongRelays and Wrong (the marked
-- cases, and what is shut out). The others serve these.
pub mod Settled
pub mod Heard
pub mod Remembered
pub mod Fair
pub mod Queues
pub mod Ledger
pub mod Counters
pub mod Ports
pub mod Reach
pub mod Keys
pub mod Holds
pub mod Refusals
pub mod Listed
pub mod Replying
pub mod Answered
pub mod Small
pub mod ReadBack
pub mod Sums
pub mod Untaken
pub mod Line
pub mod Takes
pub mod Foretold
pub mod Ranges
pub mod Meaning
pub mod Domain
pub mod Replies
pub mod Search
pub mod SearchBack
pub mod Onward
pub mod Wanted
pub mod Transport
pub mod Many
pub mod Tracked
pub mod Floods
pub mod Marked
pub mod WrongRelays
pub mod Wrong
