-- What each call answers, and what it leaves. A call puts its questions in rising number; the first
-- that has the answer no refuses the call, and a refused call leaves everything as it was.
use Rattle.std.specs.Prelude.{ℕ, ◌+◌, ◌-◌, ◌*◌, min, Bool, cond, ◌&&◌, List, [], ◌∷◌, Ok, Err, ◌==◌, nat_lt}
use Rattle.answer.specs.declared.Refusal.TheVariants.{Denied}
use Rattle.answer.specs.declared.Answer.TheVariants.{Refused}
use Rattle.answer.specs.Told.{Told, granted, refused, told}
use Rattle.formula.specs.Party.{alone}
use Rattle.label.specs.declared.kind.Kind.{Kind}
use Rattle.label.specs.Labels.{Marks, sees, handed, flows, join, joinable, relabelled}
use Rattle.key.specs.Requests.{Asked}
use Rattle.key.specs.Meanings.{Meaning, Verdict}
use Rattle.rules.specs.State.{State, Place, vacant, holds, record_at, task_at, with_record, with_task, is_figure}

-- what a call leaves and what it answers
pub record Ruled : Type 0 where
  pub state : State
  pub answer : Told

abbrev pub refuse : State → ℕ → Ruled
refuse t q = record { state = t; answer = refused q [] }

abbrev pub done : State → Ruled
done t = record { state = t; answer = granted [] }

-- a question: on at yes, refused by its number at no
abbrev pub asks : State → ℕ → Bool → Ruled → Ruled
asks t q b next = cond b next (refuse t q)

-- the place is vacant
abbrev pub on_vacant : State → ℕ → Place → Ruled → Ruled
on_vacant t q vacant next = next
on_vacant t q (holds n l) next = refuse t q

-- the place holds a figure under a label
abbrev pub on_held : State → ℕ → Place → (ℕ → Marks → Ruled) → Ruled
on_held t q vacant next = refuse t q
on_held t q (holds n l) next = next n l

abbrev pub is_record : ℕ → Bool
is_record i = nat_lt i 64

abbrev pub is_task : ℕ → Bool
is_task k = nat_lt k 8

abbrev pub is_party : ℕ → Bool
is_party p = nat_lt p 16

-- the calls on a task and a record
abbrev pub on_both : State → ℕ → ℕ → (ℕ → Marks → ℕ → Marks → Ruled) → Ruled
on_both t k i next = asks t 3 (is_task k && is_record i) (on_held t 5 (task_at t k) (λ a l. on_held t 6 (record_at t i) (λ n r. next a l n r)))

-- a party fills an empty record, under a label by which the party alone has a hand
abbrev pub entering : State → ℕ → ℕ → ℕ → Marks → Ruled
entering t i p n l =
    asks t 3 (is_record i && is_party p) (asks t 4 (is_figure n) (on_vacant t 6 (record_at t i) (asks t 8 (handed l (alone p)) (done (with_record t i (holds n l))))))

-- sight True, and the opener's hand
abbrev pub opener : ℕ → Marks
opener p = record { sight = []; hand = alone p ∷ [] }

abbrev pub opening : State → ℕ → ℕ → Ruled
opening t k p = asks t 3 (is_task k && is_party p) (on_vacant t 5 (task_at t k) (done (with_task t k (holds 0 (opener p)))))

abbrev pub closing : State → ℕ → Ruled
closing t k = asks t 3 (is_task k) (on_held t 5 (task_at t k) (λ a l. done (with_task t k vacant)))

abbrev pub is_manner : ℕ → Bool
is_manner m = nat_lt m 3

-- manner 0 adds, 1 subtracts down to 0, 2 multiplies, and the ceiling takes over above it
abbrev pub worked : ℕ → ℕ → ℕ → ℕ
worked m a b = cond (m == 0) (min 999999999 (a + b)) (cond (m == 1) (a - b) (min 999999999 (a * b)))

-- the task takes in the record's figure and joins its label
abbrev pub taking : State → ℕ → ℕ → ℕ → Ruled
taking t k i m =
    on_both t k i (λ a l n r. asks t 7 (is_manner m) (asks t 10 (joinable l r) (done (with_task t k (holds (worked m a n) (join l r))))))

-- the record gets the task's figure and keeps its label
abbrev pub putting : State → ℕ → ℕ → Ruled
putting t k i = on_both t k i (λ a l n r. asks t 9 (flows l r) (done (with_record t i (holds a r))))

-- the record is emptied
abbrev pub dropping : State → ℕ → ℕ → Ruled
dropping t k i = on_both t k i (λ a l n r. asks t 9 (flows l r) (done (with_record t i vacant)))

-- the figure, to a group that sees the record
abbrev pub showing : State → ℕ → ℕ → Ruled
showing t i g = asks t 3 (is_record i) (on_held t 6 (record_at t i) (λ n l. asks t 11 (sees l g) (record { state = t; answer = granted (n ∷ []) })))

-- the request that a release or an endorsement puts to its key
abbrev pub request_for : Kind → Marks → List ℕ → Marks → Asked
request_for kind held new task = record { kind = kind; held = held; new = new; task = task }

-- the key's own questions come last, in the key's own order
abbrev pub by_key : State → Verdict → Ruled → Ruled
by_key t (Ok u) next = next
by_key t (Err d) next = record { state = t; answer = told (Refused (Denied d)) }

-- a release replaces the record's sight formula, an endorsement its hand formula
abbrev pub changing : Kind → State → ℕ → ℕ → List ℕ → Meaning → Ruled
changing kind t k i new key =
    on_both t k i (λ a l n r. by_key t (key (request_for kind r new l)) (done (with_record t i (holds n (relabelled kind r new)))))
