-- Laws of undoing events on a gateway as a record of lists: one more event undone, what stays, and how much is sent.
use mathlib.Core.Path.{◌≡◌, refl, sym, ◌∙◌, ap}
use mathlib.Core.Bool.{Bool, true, false, cond}
use mathlib.Core.List.{List, [], ◌∷◌, ◌++◌, map, append-nil, append_assoc}
use Prim.Native.Nat.{◌+◌}
use lib.ListN.{length, length-append, length-map}
use Rattle.model.specs.Doing.{sent}
use Rattle.model.specs.declared.Message.{Message}
use Rattle.model.specs.declared.State.{State}
use Rattle.model.specs.declared.Site.{Site}
use Rattle.memory.specs.Records.{Gateway, site_of}
use Rattle.memory.specs.Validity.{is_processed}
use Rattle.memory.specs.declared.Entry.{Entry}
use Rattle.gateway.specs.Effects.{with_queue, with_state, sent_one, sent_all}
use Rattle.gateway.specs.Undoing.{processed_of, restored, sent_back, rolled_back}
use Rattle.effects.proofs.StoredSent.{sent_as, sent-settings, sent-queue, sent-behind}

-- sending some and then others
pub sent-append : (cancel : Bool) (ms ns : List Message) (g : Gateway) → sent_all cancel (ms ++ ns) g ≡ sent_all cancel ns (sent_all cancel ms g)
unfolding sent_all
sent-append cancel [] ns g = refl
sent-append cancel (m ∷ ms) ns g = sent-append cancel ms ns (sent_one cancel m g)

-- sending changes neither state nor queue
module _ (cancel : Bool) where
  pub sent-with-state : (ms : List Message) (s : State) (g : Gateway) → sent_all cancel ms (with_state s g) ≡ with_state s (sent_all cancel ms g)
  unfolding sent_all sent_one
  sent-with-state [] s g = refl
  sent-with-state (m ∷ ms) s g = sent-with-state ms s (sent_one cancel m g)

  pub sent-with-queue : (ms : List Message) (queue : List Entry) (g : Gateway) → sent_all cancel ms (with_queue queue g) ≡ with_queue queue (sent_all cancel ms g)
  unfolding sent_all sent_one
  sent-with-queue [] queue g = refl
  sent-with-queue (m ∷ ms) queue g = sent-with-queue ms queue (sent_one cancel m g)

  pub sent-outstanding : (ms : List Message) (g : Gateway) → length (sent_all cancel ms g).outstanding ≡ length g.outstanding + length ms
  sent-outstanding ms g = ap length (sent-behind cancel ms g) ∙ rw (length-append, length-map)

-- what undoing leaves as it was, and how many more are outstanding
module _ (es : List Entry) (g : Gateway) where
  pub rolled-settings : (rolled_back es g).settings ≡ g.settings
  unfolding rolled_back
  rolled-settings = sent-settings true (sent_back (site_of g.settings) es) (with_state (restored g.state es) g)

  pub rolled-queue : (rolled_back es g).queue ≡ g.queue
  unfolding rolled_back
  rolled-queue = sent-queue true (sent_back (site_of g.settings) es) (with_state (restored g.state es) g)

  pub rolled-outstanding : length (rolled_back es g).outstanding ≡ length g.outstanding + length (sent_back (site_of g.settings) es)
  unfolding rolled_back
  rolled-outstanding = sent-outstanding true (sent_back (site_of g.settings) es) (with_state (restored g.state es) g)

  pub rolled-behind : (rolled_back es g).outstanding ≡ g.outstanding ++ map (sent_as true) (sent_back (site_of g.settings) es)
  unfolding rolled_back
  rolled-behind = sent-behind true (sent_back (site_of g.settings) es) (with_state (restored g.state es) g)

  pub rolled-with-queue : (queue : List Entry) → rolled_back es (with_queue queue g) ≡ with_queue queue (rolled_back es g)
  unfolding rolled_back
  rolled-with-queue queue = sent-with-queue true (sent_back (site_of g.settings) es) queue (with_state (restored g.state es) g)

-- nothing undone
pub rolled-none : (g : Gateway) → rolled_back [] g ≡ g
unfolding rolled_back restored sent_back sent_all
rolled-none g = refl

-- one entry
module _ (e : Entry) where
  pub processed-one : is_processed e ≡ true → processed_of (e ∷ []) ≡ e ∷ []
  unfolding processed_of
  processed-one h = rw h

  pub processed-no : is_processed e ≡ false → processed_of (e ∷ []) ≡ []
  unfolding processed_of
  processed-no h = rw h

  pub rolled-one : (g : Gateway) → rolled_back (e ∷ []) g ≡ sent_all true (sent (site_of g.settings) e.before e.message) (with_state e.before g)
  unfolding rolled_back restored sent_back
  rolled-one g = refl

  pub back_one : (site : Site) → sent_back site (e ∷ []) ≡ sent site e.before e.message
  unfolding sent_back
  back_one site = refl

  -- one more event undone, after later ones
  more-back : (es : List Entry) (g : Gateway) → rolled_back (e ∷ es) g ≡ rolled_back (e ∷ []) (rolled_back es g)
  unfolding rolled_back restored sent_back
  more-back es g =
      let site = site_of g.settings in
      let ms = sent_back site es in
      let ns = sent site e.before e.message in
      let same : site_of (rolled_back es g).settings ≡ site = ap site_of (rolled-settings es g) in
      sent-append true ms ns (with_state e.before g)
      ∙ (ap (sent_all true ns) (sent-with-state true ms e.before (with_state (restored g.state es) g))
      ∙ ap (λ (s : Site). sent_all true (sent s e.before e.message) (with_state e.before (rolled_back es g))) (sym same))

  pub rolled-more : (es : List Entry) (g : Gateway) → rolled_back (processed_of (e ∷ es)) g ≡ rolled_back (processed_of (e ∷ [])) (rolled_back (processed_of es) g)
  unfolding processed_of
  rolled-more es g = by (is_processed e)
    where
      by : (b : Bool) → rolled_back (cond b (e ∷ processed_of es) (processed_of es)) g ≡ rolled_back (cond b (e ∷ []) []) (rolled_back (processed_of es) g)
      by true = more-back (processed_of es) g
      by false = sym (rolled-none (rolled_back (processed_of es) g))

  pub back_more : (site : Site) (es : List Entry) → sent_back site (processed_of (e ∷ es)) ≡ sent_back site (processed_of es) ++ sent_back site
      (processed_of (e ∷ []))
  unfolding processed_of sent_back
  back_more site es = by (is_processed e)
    where
      by : (b : Bool) → sent_back site (cond b (e ∷ processed_of es) (processed_of es)) ≡ sent_back site (processed_of es) ++ sent_back site (cond b (e ∷ []) [])
      by true = refl
      by false = sym (append-nil (sent_back site (processed_of es)))

-- what entries had sent, the later ones first
pub back-append : (site : Site) (es fs : List Entry) → sent_back site (processed_of (es ++ fs)) ≡ sent_back site (processed_of fs) ++ sent_back site (processed_of es)
unfolding processed_of sent_back
back-append site [] fs = sym (append-nil (sent_back site (processed_of fs)))
back-append site (e ∷ es) fs =
    back_more e site (es ++ fs)
    ∙ (ap (λ (ms : List Message). ms ++ sent_back site (processed_of (e ∷ []))) (back-append site es fs)
    ∙ (append_assoc (sent_back site (processed_of fs)) (sent_back site (processed_of es)) (sent_back site (processed_of (e ∷ [])))
    ∙ ap (◌++◌ (sent_back site (processed_of fs))) (sym (back_more e site es))))
