-- Laws of the searches of the queue and of what is outstanding.
use mathlib.Core.Path.{◌≡◌, refl, ◌∙◌, ap}
use mathlib.Core.Logic.{⊎_elim}
use mathlib.Core.Bool.{Bool, true, false, cond}
use mathlib.Core.List.Memᴰ
use mathlib.Core.List.Memᴰ.{head as here}
use mathlib.Core.List.Memᴰ.{tail as there}
use mathlib.Core.List.{List, [], ◌∷◌}
use Rattle.lists.specs.Lists.{◌∈◌, Ascending, none, more}
use Rattle.model.specs.declared.Message.{Message}
use Rattle.memory.specs.Validity.{is_pending, is_processed, later}
use Rattle.memory.specs.declared.Entry.{Entry}
use Rattle.memory.proofs.EventLaws.{later-onward}
use Rattle.memory.proofs.Validated.{MayStand}
use Rattle.lists.specs.Lists.{from_first}
use Rattle.gateway.specs.Taking.{is_later}
use Rattle.gateway.specs.Undoing.{processed_of}
use Rattle.gateway.specs.Working.{pending_of}

-- where a message enters the queue
module _ (m : Message) where
  pub behind-later : {es : List Entry} → Ascending MayStand es → (x : Entry) → x ∈ from_first (is_later m) es → later x.message m ≡ true
  unfolding from_first
  behind-later none x n = absurd (Memᴰ.not-nil n)
  behind-later (more {x = e} {xs = es} f a) x n = by-case (later e.message m) refl (behind-later a x) n
    where
      by-case : (t : Bool) → later e.message m ≡ t → (x ∈ from_first (is_later m) es → later x.message m ≡ true) → x ∈ cond t (e ∷ es)
          (from_first (is_later m) es) → later x.message m ≡ true
      by-case true h rest n =
          ⊎_elim
          (λ (p : x ≡ e). ap (λ (y : Entry). later y.message m) p ∙ h)
          (λ o. later-onward m e.message x.message h (f x o).order)
          (Memᴰ.cases_cons n)
      by-case false h rest n = rest n

-- the processed entries are entries, and the unprocessed messages are those of entries
pub processed-member : (es : List Entry) (x : Entry) → x ∈ processed_of es → x ∈ es
unfolding processed_of
processed-member [] x n = n
processed-member (e ∷ es) x n = by-case (is_processed e) (processed-member es x) n
  where
    by-case : (t : Bool) → (x ∈ processed_of es → x ∈ es) → x ∈ cond t (e ∷ processed_of es) (processed_of es) → x ∈ (e ∷ es)
    by-case true rest n = ⊎_elim here (λ o. there (rest o)) (Memᴰ.cases_cons n)
    by-case false rest n = there (rest n)

pub pending-member : (es : List Entry) (m : Message) → m ∈ pending_of es → (e : Entry) × (e ∈ es) × (m ≡ e.message)
unfolding pending_of
pending-member [] m n = absurd (Memᴰ.not-nil n)
pending-member (e ∷ es) m n = by-case (is_pending e) (pending-member es m) n
  where
    there' : (x : Entry) × (x ∈ es) × (m ≡ x.message) → (x : Entry) × (x ∈ (e ∷ es)) × (m ≡ x.message)
    there' r = (r.0, there r.1, r.2)

    by-case : (t : Bool) → (m ∈ pending_of es → (x : Entry) × (x ∈ es) × (m ≡ x.message)) → m ∈ cond t (e.message ∷ pending_of es)
        (pending_of es) → (x : Entry) × (x ∈ (e ∷ es)) × (m ≡ x.message)
    by-case true rest n = ⊎_elim (λ (p : m ≡ e.message). (e, here refl, p)) (λ o. there' (rest o)) (Memᴰ.cases_cons n)
    by-case false rest n = there' (rest n)
