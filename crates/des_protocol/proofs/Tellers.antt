-- The events of a teller.
use Rattle.std.proofs.Common.{◌≡◌, ◌∙◌, ℕ, ◌+◌, ◌-◌, ◌≤◌, List, [], ◌∷◌, ◌++◌, length, map, ap, sym, arith, length-append}
use Rattle.std.proofs.lemmas.List.{length-map, map-append}
use Rattle.des_event.specs.declared.event.Event.{Event}
use Rattle.des_protocol.specs.declared.telling.Telling.{Telling}
use Rattle.des_protocol.specs.Numbered.{event_of, events_of}
use Rattle.des_protocol.specs.Tellers.{telling_of}

module _ {Body : Type 0} where
  events_end : (time origin made : ℕ) (ts : List (Telling Body)) (t : Telling Body)
      → events_of time origin made (ts ++ t ∷ []) ≡ events_of time origin made ts ++ event_of time origin (made + length ts + 1) t ∷ []
  events_end time origin made [] t = ap (λ n. event_of time origin (n + 1) t ∷ []) (omega arith)
  events_end time origin made (u ∷ ts) t = ap (λ l. event_of time origin (made + 1) u ∷ l)
      (events_end time origin (made + 1) ts t
      ∙ ap (λ n. events_of time origin (made + 1) ts ++ event_of time origin (n + 1) t ∷ []) (omega arith))

  -- one telling more is one event more, of the next number
  module _ (time origin made : ℕ) (es fs : List (Event Body)) (t : Telling Body) (counted : length es ≤ made)
      (are : es ≡ events_of time origin (made - length es) (map (telling_of time) es)) (more : fs ≡ es ++ event_of time origin (made + 1) t ∷ []) where
    pub one_longer : length fs ≡ length es + 1
    one_longer = ap (length) more ∙ length-append es (event_of time origin (made + 1) t ∷ [])

    -- the event tells what was told
    same_telling : telling_of time (event_of time origin (made + 1) t) ≡ t
    same_telling = ap (λ d. record { delay = d; target = t.target; body = t.body }) (omega arith)

    pub told_more : map (telling_of time) fs ≡ map (telling_of time) es ++ t ∷ []
    told_more = ap (map (telling_of time)) more ∙ (map-append (telling_of time) es (event_of time origin (made + 1) t ∷ [])
        ∙ ap (λ u. map (telling_of time) es ++ u ∷ []) same_telling)

    pub still_numbered : fs ≡ events_of time origin ((made + 1) - length fs) (map (telling_of time) fs)
    still_numbered = more ∙ (ap (λ l. l ++ event_of time origin (made + 1) t ∷ []) are
        ∙ (ap (λ n. events_of time origin (made - length es) (map (telling_of time) es) ++ event_of time origin n t ∷ [])
        (omega (arith, counted, length-map es (telling_of time)))
        ∙ (sym (events_end time origin (made - length es) (map (telling_of time) es) t)
        ∙ (ap (λ n. events_of time origin n (map (telling_of time) es ++ t ∷ [])) (omega (arith, one_longer, counted))
        ∙ ap (λ l. events_of time origin ((made + 1) - length fs) l) (sym told_more)))))
