-- What the contracts cite: the survey of the ports, Survey; their names, looked at once, Names.
pub mod Survey
pub mod Names
