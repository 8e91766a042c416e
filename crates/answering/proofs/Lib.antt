-- What the two steps of answering hand together. That they and the scan between them are what answering is promised to be is `joined`, in crate
-- harpjuniper_echo.
pub mod Left
pub mod Asking
pub mod Searching
