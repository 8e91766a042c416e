-- What the contracts cite: the board, the list or the state that a setting leaves.
pub mod Settled
