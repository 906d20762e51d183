-- What a line leaves in the docket: a release or an endorsement leaves the entry that the docket can
-- carry. An answer at 21, 1, 2 or 3 is carried by none.
use Rattle.std.specs.Prelude.{ℕ, cond, List, [], Some, None, Option}
use Rattle.answer.specs.Told.{Told, granted, refused}
use Rattle.formula.specs.Forms.{reduces}
use Rattle.label.specs.declared.kind.Kind.{Kind}
use Rattle.label.specs.declared.kind.Kind.TheVariants.{Release, Endorse}
use Rattle.docket.specs.declared.entry.Entry.{Entry}
use Rattle.docket.specs.Entries.{Plain, plain_of, carries, entry_bytes}
use Rattle.lines.specs.Forms.{Form, enters, opens, closes, takes, puts, drops, shows, releases, endorses, form_of}

-- an answer without its figure
abbrev pub verdict : Told → Told
verdict (granted vs) = granted []
verdict (refused q vs) = refused q vs

-- the entry with the new formula, where that could be reduced
abbrev pub with_new : Kind → ℕ → ℕ → Told → Told → Option Plain
with_new kind k i x (granted new) = Some (record { kind = kind; task = k; «record» = i; answer = x; new = new })
with_new kind k i x (refused q vs) = None

abbrev pub entry_for : Option Form → Told → Option Plain
entry_for None x = None
entry_for (Some (enters i p n s h)) x = None
entry_for (Some (opens k p)) x = None
entry_for (Some (closes k)) x = None
entry_for (Some (takes k i m)) x = None
entry_for (Some (puts k i)) x = None
entry_for (Some (drops k i)) x = None
entry_for (Some (shows i g)) x = None
entry_for (Some (releases k i f key)) x = with_new Release k i (verdict x) (reduces f)
entry_for (Some (endorses k i f key)) x = with_new Endorse k i (verdict x) (reduces f)

abbrev pub plain_in : Option Entry → Option Plain
plain_in None = None
plain_in (Some e) = Some (plain_of e)

abbrev pub bytes_of : Plain → List ℕ
bytes_of e = cond (carries e) (entry_bytes e) []

abbrev pub bytes_in : Option Plain → List ℕ
bytes_in None = []
bytes_in (Some e) = bytes_of e

abbrev pub line_bytes : List ℕ → Told → List ℕ
line_bytes line x = bytes_in (entry_for (form_of line) x)
