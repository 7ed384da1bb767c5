-- What the contracts of `read_faults` cite. Files that end in `Laws` hold consequences, which a reader may skip.
pub mod Fault
pub mod FaultLaws
