-- The frames of a round that are under way, as the theory has them.
use mathlib.Core.Path.{◌≡◌, refl, sym, ◌∙◌, ap, subst}
use mathlib.Core.Bool.{Bool, true, false, cond, ◌||◌, false≢true}
use mathlib.Core.List.{List, [], ◌∷◌, ◌++◌, map, append_assoc}
use Prim.Native.Nat.{ℕ, suc, ◌-◌, ◌≤◌}
use native.Mathlib.Omega.{arith}
use Rattle.lists.specs.Lists.{any, without_first, All, nil, cons, Insert, here, there}
use Rattle.lists.proofs.ListLaws.{all_append, all-image}
use Rattle.model.specs.declared.Message.{Message}
use Rattle.model.specs.declared.Kind.{Kind}
use Rattle.model.specs.declared.Kind.TheVariants.{Failure, Request, Delivery, Restock, Start, Lvt, Update}
use Rattle.frame.specs.Reasons.{frame_read}
use Rattle.frame.specs.Writing.{written}
use Rattle.frame.specs.declared.Frame.{Frame}
use Rattle.buffer.proofs.Equality.{same_bytes_lem}
use Rattle.gateway.specs.Rounds.{frames_in_round}
use Rattle.round_steps.specs.RoundSteps.{RoundFrame, start, lvt, update}
use Rattle.run.specs.World.{Carried, is_frame, tag_of, carry, kind_in}

-- a frame of round t as a frame of the theory, if it is one of a round
abbrev pub by_kind : ℕ → Message → Kind → List RoundFrame
by_kind t m (Failure origin) = []
by_kind t m (Request origin) = []
by_kind t m (Delivery origin) = []
by_kind t m (Restock quantity) = []
by_kind t m Start = start m.from m.to t ∷ []
by_kind t m Lvt = lvt m.from m.to t m.hour ∷ []
by_kind t m Update = update m.from m.to t m.hour ∷ []

abbrev pub round_of : ℕ → Frame → List RoundFrame
round_of t f = by_kind t f.message f.message.kind

-- those of some frames
unfoldable pub rounds_of : ℕ → List Frame → List RoundFrame
rounds_of t [] = []
rounds_of t (f ∷ fs) = round_of t f ++ rounds_of t fs

-- those under way; round t of the theory is round t + 1 of the run
unfoldable pub rounds_in : List Carried → List RoundFrame
rounds_in [] = []
rounds_in (c ∷ cs) = round_of (c.tag - 1) (frame_read c.frame) ++ rounds_in cs

pub rounds-append : (cs ds : List Carried) → rounds_in (cs ++ ds) ≡ rounds_in cs ++ rounds_in ds
unfolding rounds_in
rounds-append [] ds = refl
rounds-append (c ∷ cs) ds =
    ap (λ l. round_of (c.tag - 1) (frame_read c.frame) ++ l) (rounds-append cs ds)
    ∙ sym (append_assoc (round_of (c.tag - 1) (frame_read c.frame)) (rounds_in cs) (rounds_in ds))

-- what is written and carried reads as it was
abbrev pub Readable : Frame → Type 0
Readable f = (frame_read (written f)) ≡ f

abbrev pub tagged : ℕ → List ℕ → Carried
tagged tag f = record { frame = f; tag = tag }

rounds-written : (t : ℕ) (fs : List Frame) → All Readable fs → rounds_in (map (tagged (suc t)) (map written fs)) ≡ rounds_of t fs
unfolding rounds_in rounds_of
rounds-written t [] nil = refl
rounds-written t (f ∷ fs) (cons e b) =
    let number : suc t - 1 ≡ t = omega arith in
    rw (e, number) (ap (λ l. round_of t f ++ l) (rounds-written t fs b))

pub rounds-carried : (t : ℕ) (fs : List Frame) → All Readable fs → (cs : List Carried)
    → rounds_in (carry (suc t) (map written fs) cs) ≡ rounds_in cs ++ rounds_of t fs
rounds-carried t fs a cs =
    rounds-append cs (map (tagged (suc t)) (map written fs)) ∙ ap (λ l. rounds_in cs ++ l) (rounds-written t fs a)

-- Starts, Lvts and Updates to some gateways
pub starts-are : (t hour i : ℕ) (l : List ℕ) → rounds_of t (frames_in_round Start hour i l) ≡ map (λ j. start i j t) l
unfolding rounds_of
starts-are t hour i [] = refl
starts-are t hour i (j ∷ l) = ap (λ k. start i j t ∷ k) (starts-are t hour i l)

pub lvts-are : (t hour i : ℕ) (l : List ℕ) → rounds_of t (frames_in_round Lvt hour i l) ≡ map (λ j. lvt i j t hour) l
unfolding rounds_of
lvts-are t hour i [] = refl
lvts-are t hour i (j ∷ l) = ap (λ k. lvt i j t hour ∷ k) (lvts-are t hour i l)

pub updates-are : (t hour i : ℕ) (l : List ℕ) → rounds_of t (frames_in_round Update hour i l) ≡ map (λ j. update i j t hour) l
unfolding rounds_of
updates-are t hour i [] = refl
updates-are t hour i (j ∷ l) = ap (λ k. update i j t hour ∷ k) (updates-are t hour i l)

-- the oldest equal frame under way, taken out
pub round-taken : (frame : List ℕ) (cs : List Carried) → any (is_frame frame) cs ≡ true → (f : RoundFrame)
    → round_of (tag_of frame cs - 1) (frame_read frame) ≡ f ∷ [] → Insert f (rounds_in (without_first (is_frame frame) cs)) (rounds_in cs)
unfolding any without_first tag_of rounds_in
round-taken frame [] h f e = absurd (false≢true h)
round-taken frame (c ∷ cs) h f e = go (is_frame frame c) refl (λ k d. round-taken frame cs k f d) h e
  where
    others : (l : List RoundFrame) {a b : List RoundFrame} → Insert f a b → Insert f (l ++ a) (l ++ b)
    others [] x = x
    others (g ∷ l) x = there (others l x)

    go : (b : Bool) → is_frame frame c ≡ b
        → (any (is_frame frame) cs ≡ true → round_of (tag_of frame cs - 1) (frame_read frame) ≡ f ∷ [] → Insert f (rounds_in (without_first
        (is_frame frame) cs)) (rounds_in cs))
        → (b || any (is_frame frame) cs) ≡ true
        → round_of (cond b c.tag (tag_of frame cs) - 1) (frame_read frame) ≡ f ∷ []
        → Insert f (rounds_in (cond b cs (c ∷ without_first (is_frame frame) cs))) (round_of (c.tag - 1) (frame_read c.frame) ++ rounds_in cs)
    go true d rest k e =
        let bytes : frame ≡ c.frame = same_bytes_lem frame c.frame d in
        rw (← bytes, e) here
    go false d rest k e = others (round_of (c.tag - 1) (frame_read c.frame)) (rest k e)

-- a frame that is none of a round leaves them
pub round-left : (frame : List ℕ) (cs : List Carried) → ((t : ℕ) → round_of t (frame_read frame) ≡ [])
    → rounds_in (without_first (is_frame frame) cs) ≡ rounds_in cs
unfolding without_first rounds_in
round-left frame [] n = refl
round-left frame (c ∷ cs) n = go (is_frame frame c) refl (round-left frame cs n)
  where
    go : (b : Bool) → is_frame frame c ≡ b → rounds_in (without_first (is_frame frame) cs) ≡ rounds_in cs
        → rounds_in (cond b cs (c ∷ without_first (is_frame frame) cs)) ≡ round_of (c.tag - 1) (frame_read c.frame) ++ rounds_in cs
    go true d rest =
        let bytes : frame ≡ c.frame = same_bytes_lem frame c.frame d in
        rw (← bytes, n (c.tag - 1)) refl
    go false d rest = ap (λ l. round_of (c.tag - 1) (frame_read c.frame) ++ l) rest

-- a frame of a round has a round's number
abbrev pub Numbered : Carried → Type 0
Numbered c = 4 ≤ kind_in c.frame → 1 ≤ c.tag

-- what all under way have, the rest have, and with frames that have it all have it
pub carried-rest : {p : Carried → Type 0} (test : Carried → Bool) {cs : List Carried} → All p cs → All p (without_first test cs)
unfolding without_first
carried-rest test nil = nil
carried-rest {p} test (cons {a = c} {l = cs} h a) = go (test c) (carried-rest test a)
  where
    go : (b : Bool) → All p (without_first test cs) → All p (cond b cs (c ∷ without_first test cs))
    go true rest = a
    go false rest = cons h rest

pub carried-more : {p : Carried → Type 0} (tag : ℕ) {fs : List Frame} → All (λ f. p (tagged tag (written f))) fs → {cs : List Carried} → All
    p cs → All p (carry tag (map written fs) cs)
carried-more tag {fs} a b = all_append b (all-image (tagged tag) (all-image written a))

-- so the oldest equal frame has one
pub number-found : (frame : List ℕ) → 4 ≤ kind_in frame → {cs : List Carried} → All Numbered cs → any (is_frame frame) cs ≡ true → 1 ≤ tag_of frame cs
unfolding any tag_of
number-found frame k nil h = absurd (false≢true h)
number-found frame k (cons {a = c} {l = cs} n a) h = go (is_frame frame c) refl (number-found frame k a) h
  where
    go : (b : Bool) → is_frame frame c ≡ b → (any (is_frame frame) cs ≡ true → 1 ≤ tag_of frame cs) → (b || any (is_frame frame) cs) ≡ true → 1
        ≤ cond b c.tag (tag_of frame cs)
    go true d rest e = n (subst (λ f. 4 ≤ kind_in f) (same_bytes_lem frame c.frame d) k)
    go false d rest e = rest e
