-- Every file that is written reads back.
use Rattle.std.proofs.Common.{◌≡◌, true}
use Rattle.elf_build.specs.declared.plan.Plan.{Plan}
use Rattle.elf_build.specs.Fits.{fits}
use Rattle.elf_build.specs.File.{file_of}
use Rattle.written_module.specs.Written.{ReadsBack}
use Rattle.written_module.proofs.Bounds.{bounds}
use Rattle.written_module.proofs.Sections.{file-laid, sections-read}
use Rattle.written_module.proofs.Tables.{jumps-read, calls-read, traces-read}
use Rattle.written_module.proofs.SymbolRows.{symbols-all}
use Rattle.written_module.proofs.KeyBytes.{keys-loaded}
use Rattle.written_module.proofs.Passing.{names-are, passes-all}

-- a file that is written of a plan says what the plan does
pub reads-back : (plan : Plan) → fits plan ≡ true → ReadsBack plan
reads-back plan all =
    let ok = bounds plan all in
    let laid_so = file-laid plan ok in
    let read = sections-read plan (file_of plan) laid_so ok in
    record {
      within = laid_so.within;
      passes = passes-all plan ok (file_of plan) laid_so;
      sections = read;
      jumps = jumps-read plan ok (file_of plan) read;
      calls = calls-read plan ok (file_of plan) read;
      traces = traces-read plan ok (file_of plan) read;
      symbols = symbols-all plan ok (file_of plan) read (names-are plan ok (file_of plan) laid_so);
      keys = keys-loaded plan ok (file_of plan) read;
    }
