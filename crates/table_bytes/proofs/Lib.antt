pub mod ByteForm
pub mod RoundTrip
