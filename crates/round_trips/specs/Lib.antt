pub mod RoundTrips
