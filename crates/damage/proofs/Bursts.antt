-- One burst (document 02, No. 8): `OneBurst` proves that bursts of 75 bits are refused, `LongerBurst` that some of 76 are missed.
-- Assumes nothing.
pub mod OneBurst
pub mod LongerBurst
