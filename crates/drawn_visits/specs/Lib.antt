pub mod DrawnVisits
