pub mod OneSite
