-- What the two steps of receiving hand together; Joined: they and the scan between them are page 01's verdict; Hearing: and do what hearing a datagram does.
pub mod Received
pub mod Asking
pub mod Joined
pub mod Hearing
