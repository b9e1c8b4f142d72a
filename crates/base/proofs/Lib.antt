-- The laws of the words that every definition uses, of tests, numbers of refusal, searches and stores, of differences of numbers and of altitudes. Callers cite these and not the definitions' text.
pub mod Choice
pub mod Tests
pub mod Seconds
pub mod Sums
pub mod SumOver
pub mod HowMany
pub mod FirstWhere
pub mod FirstBad
pub mod Lists
pub mod Numbers
pub mod Search
pub mod Store
pub mod Products
pub mod Integers
pub mod Fractions
pub mod Altitude
pub mod InFront
