pub mod LeastTrips
