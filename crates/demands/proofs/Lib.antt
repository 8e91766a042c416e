-- The customers' demands are kept. To be read: Demand1, Demand2 and Demand3 (each field of the three records), Floods (a flooded datagram goes on once),
-- Echoes (which requests are answered, by what, and what it counts), Apart (neither customer can tell what the other does), Batches (a batch is the
-- single calls of its items), WrongRelays and WrongBatches (relays that are shut out by them). The others serve these: Lane, a trace as one customer has
-- part in it; Fresh, how a trace begins; Promised, Held, Traced and Told, what the words hold after any steps, and what C is told then; Lasts, that
-- there are such traces; Fitting and ReadOut, what C reads out of an answer; Over, what a customer's calls come to one after the other; Whole, which
-- calls leave all as it was lent; Stretches and Output, what C finds in the output, and Replied, likewise of a reply; Remembers, what it finds of the
-- memory; Messages, what it reads and builds of echo messages; Stamps, how it has a timestamp; Beyond, that octets beyond the length field change no
-- reply; Items, what a batch leaves of the answers and the output, ItemNumbers, by which numbers an item is refused, Singles, its items as calls, and
-- Acts, a program with batches as one customer has part in it.
pub mod Lane
pub mod Fresh
pub mod Promised
pub mod Held
pub mod Traced
pub mod Lasts
pub mod Told
pub mod Fitting
pub mod Replied
pub mod ReadOut
pub mod Over
pub mod Whole
pub mod Stretches
pub mod Output
pub mod Items
pub mod ItemNumbers
pub mod Singles
pub mod Remembers
pub mod Demand1
pub mod Demand2
pub mod Demand3
pub mod Floods
pub mod Messages
pub mod Stamps
pub mod Beyond
pub mod Echoes
pub mod Apart
pub mod Acts
pub mod Batches
pub mod WrongRelays
pub mod WrongBatches
