-- The docket's laws together.
use Rattle.std.proofs.Common.{◌≡◌, ℕ, List, sym}
use Rattle.docket.specs.Reading.{Standing, entry, over, refusal, read_at}
use Rattle.docket.specs.Laws.{Bytes, WasWritten, DocketLaws}
use Rattle.docket.proofs.Whole.{bytes_are_bits, reads_back, read_was_written, told_apart, docket_reads_back, docket_was_written, over_end}
use Rattle.docket.proofs.Packing.{length_answer}
use Rattle.docket.proofs.Filing.{written_reads_back}
use Rattle.docket.proofs.Settles.{missing}

pub laws : DocketLaws
laws =
    record {
      bytes_are_bits = bytes_are_bits;
      answers_sized = length_answer;
      reads_back = reads_back;
      read_was_written = read_was_written;
      told_apart = told_apart;
      docket_reads_back = docket_reads_back;
      docket_was_written = docket_was_written;
      written_reads_back = written_reads_back;
      missing = missing;
    }

-- what the bytes are that were read so
pub was : (bytes : List ℕ) (place : ℕ) (s : Standing) → Bytes bytes → s ≡ read_at bytes place → WasWritten bytes place s
was bytes place (entry e next) b p = read_was_written bytes place e next b (sym p)
was bytes place over b p = over_end bytes place (sym p)
was bytes place (refusal q) b p = tt
