use Rattle.module_laws.proofs.FileBytes.{other_bytes, same_length}
use Rattle.module_laws.proofs.other_bytes_are_the_files.Goals as goal

pub returns : goal.returns
returns c = record { bytes = other_bytes; length = same_length }
