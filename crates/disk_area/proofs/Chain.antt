-- A record behind the records of an area.
use Rattle.std.proofs.Common.{◌≡◌, ◌≢◌, inl, inr, ℕ, ◌+◌, ◌≤◌, ◌<◌, ◌^◌, List, [], ◌∷◌, ◌++◌, length, take, drop, refl, sym, ◌∙◌, ap, arith, append_assoc, length-append, take-append-drop}
use Rattle.std.proofs.lemmas.Bool.{cases_eq}
use Rattle.std.proofs.lemmas.List.{take_at, append-nil}
use Rattle.disk_area.specs.Area.{header, record_header, behind_gate, record_behind, records_text, area_text, IsArea}
use Rattle.disk_area.specs.Moments.{KeepsPieces, GainsRecord}
use Rattle.disk_area.specs.Writes.{KeepsFront, Appended, Recording}
use Rattle.disk_area.proofs.Staging.{length-header, length-behind}

pub length-area : (number : ℕ) (image : List ℕ) (records : List (List ℕ)) → length (area_text number image records) ≡ 57 + length image + length (records_text records)
length-area number image records = omega (arith, length-header number image, length-append (header number image ++ image) (records_text records), length-append (header number image) image)

pub records-push : (bodies : List (List ℕ)) (body : List ℕ) → records_text (bodies ++ body ∷ []) ≡ records_text bodies ++ (1 ∷ record_header body ++ body)
records-push [] body = append-nil (1 ∷ record_header body ++ body)
records-push (b ∷ bodies) body = ap (λ l. 1 ∷ record_header b ++ b ++ l) (records-push bodies body) ∙ sym (append_assoc (1 ∷ record_header b ++ b) (records_text bodies) (1 ∷ record_header body ++ body))

-- a save is an area without records
pub save_is_area : (number : ℕ) (image bytes : List ℕ) → 58 + length image ≤ 2 ^ 30 → 1 ≤ number → number < 2 ^ 63 → bytes ≡ 1 ∷ behind_gate number image → IsArea number image [] bytes
save_is_area number image bytes small low high is = record {
  low = low;
  high = high;
  small = omega (arith, small, ap length is, length-behind number image);
  gate = 0;
  rest = [];
  shut = λ e. absurd (omega (arith, e));
  spelled = is ∙ ap (λ l. 1 ∷ (l ++ 0 ∷ [])) (sym (append-nil (header number image ++ image)));
}

module _ (number : ℕ) (image : List ℕ) (records : List (List ℕ)) (g : ℕ) (is : g ≡ length (area_text number image records)) (d c : List ℕ) (a : IsArea number image records d) where
  -- the gate lies within the area
  pub gate_inside : g < length d
  gate_inside = omega (arith, is, ap length a.spelled, length-append (area_text number image records) (a.gate ∷ a.rest))

  front_d : take g d ≡ area_text number image records
  front_d = ap (take g) a.spelled ∙ take_at (area_text number image records) (a.gate ∷ a.rest) g (sym is)

  front_gate : take (g + 1) d ≡ area_text number image records ++ a.gate ∷ []
  front_gate = ap (take (g + 1)) (a.spelled ∙ sym (append_assoc (area_text number image records) (a.gate ∷ []) a.rest))
      ∙ take_at (area_text number image records ++ a.gate ∷ []) a.rest (g + 1) (omega (arith, is, length-append (area_text number image records) (a.gate ∷ [])))

  pub kept_area : KeepsFront (g + 1) d c → IsArea number image records c
  kept_area kept = record {
    low = a.low;
    high = a.high;
    small = omega (arith, kept.no_longer, a.small);
    gate = a.gate;
    rest = drop (g + 1) c;
    shut = a.shut;
    spelled = sym (take-append-drop (g + 1) c) ∙ ap (λ l. l ++ drop (g + 1) c) (kept.front ∙ front_gate) ∙ append_assoc (area_text number image records) (a.gate ∷ []) (drop (g + 1) c);
  }

  module _ (gate : ℕ) (body : List ℕ) (app : Appended g gate (record_behind body) d c) where
    whole : c ≡ area_text number image records ++ gate ∷ (record_behind body ++ drop (g + 1 + length (record_behind body)) c)
    whole = sym (take-append-drop (g + 1 + length (record_behind body)) c) ∙ ap (λ l. l ++ drop (g + 1 + length (record_behind body)) c) (app.front ∙ ap (λ l. l ++ gate ∷ record_behind body) front_d)
        ∙ append_assoc (area_text number image records) (gate ∷ record_behind body) (drop (g + 1 + length (record_behind body)) c)

    pub unopened_area : gate ≢ 1 → IsArea number image records c
    unopened_area shut = record {
      low = a.low;
      high = a.high;
      small = omega (arith, app.no_longer, a.small);
      gate = gate;
      rest = record_behind body ++ drop (g + 1 + length (record_behind body)) c;
      shut = shut;
      spelled = whole;
    }

    pub opened_area : gate ≡ 1 → IsArea number image (records ++ body ∷ []) c
    opened_area e =
        let r = drop (g + 1 + length (record_behind body)) c in
        let more = record_header body ++ body in
        record {
          low = a.low;
          high = a.high;
          small = omega (arith, app.no_longer, a.small);
          gate = 0;
          rest = r;
          shut = λ z. absurd (omega (arith, z));
          spelled = whole ∙ ap (λ (k : ℕ). area_text number image records ++ k ∷ (record_behind body ++ r)) e
              ∙ ap (λ l. area_text number image records ++ 1 ∷ l) (append_assoc more (0 ∷ []) r)
              ∙ sym (append_assoc (area_text number image records) (1 ∷ more) (0 ∷ r))
              ∙ ap (λ l. l ++ 0 ∷ r) (append_assoc (1 ∷ header number image ++ image) (records_text records) (1 ∷ more) ∙ ap (λ l. 1 ∷ header number image ++ image ++ l) (sym (records-push records body)));
        }

-- an area to which a record is written keeps its pieces
pub keeps_pieces : (gate : ℕ) (body d c : List ℕ) → Recording gate (record_behind body) d c → KeepsPieces gate body d c
keeps_pieces gate body d c (inl kept) number image records a is = inl (kept_area number image records gate is d c a kept)
keeps_pieces gate body d c (inr app) number image records a is = elim (cases_eq app.0 1) [
  | inl e ↦ inr (opened_area number image records gate is d c a app.0 body app.1 e)
  | inr shut ↦ inl (unopened_area number image records gate is d c a app.0 body app.1 shut)
]

-- an area to which a record was written has it
pub gains_record : (gate : ℕ) (body d c : List ℕ) → Appended gate 1 (record_behind body) d c → GainsRecord gate body d c
gains_record gate body d c app number image records a is = opened_area number image records gate is d c a 1 body app refl
