-- Why a byte string is refused, in words, as the program frames prints it.
use Rattle.std.specs.Prelude.{ℕ, Option, Some, None, List, ◌++◌}
use Rattle.text.specs.Decimal.{field}
use Rattle.text.specs.Letters.{codes}
use Rattle.frame.specs.Reasons.{form_number}
use Rattle.frame.specs.declared.forms.FormError.{FormError}
use Rattle.frame.specs.declared.forms.FormError.TheVariants.{TooShort, WrongMap, WrongLength, WrongSense, WrongLamp, WrongGateways, NotTaken}

-- a reason in words
abbrev pub reason_text : FormError → List ℕ
unfolding codes
reason_text TooShort = codes "length: fewer than two bytes"
reason_text WrongMap = codes "map and kind: not in the table of kinds"
reason_text WrongLength = codes "length: not that of the map"
reason_text WrongSense = codes "sense: not 1 to 3"
reason_text WrongLamp = codes "lamp: a byte outside 33 to 126"
reason_text WrongGateways = codes "gateway fields: they do not agree"
reason_text NotTaken = codes "form: not taken in this call"

-- what is refused: its number and the reason; 0 alone where there is no reason
unfoldable pub refused_text : Option FormError → List ℕ
refused_text (Some reason) = field (form_number reason) ++ reason_text reason
refused_text None = field 0

-- why an item that the input cuts is refused, whatever its bytes are
abbrev pub cut_reason : List ℕ
unfolding codes
cut_reason = codes "length: the input ends inside the item"

-- its number, that of a wrong length, and that reason
unfoldable pub cut_text : List ℕ
unfolding codes
cut_text = field (form_number WrongLength) ++ cut_reason
