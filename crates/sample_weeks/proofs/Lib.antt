pub mod OneDriver
pub mod TripWeeks
