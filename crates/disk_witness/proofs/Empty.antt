-- A struct of one field that takes no bytes. Assumes `Logic`.
use Rattle.std.proofs.Common.{List, [], ◌∷◌, refl}
use seplogic.Ra.Ura.{Ura}
use mir.Val.{Val, vstruct, vcons, vnil}
use types.Logic.{Logic}
use types.Kit.{Goal, Step, step, Item, ‵, ◌$◌, move, fjoin, fpack, feq_i}
use denote.RattleType.{RattleType, Valss}
use denote.Steps.{nothing}
use denote.Struct.Struct.{Struct, within}

-- a marker, and the struct around it
abbrev pub marker : Val
marker = vstruct vnil

abbrev pub around : Val → Val
around field = vstruct (vcons field vnil)

-- what such a struct owns is what its field owns
pub made : {M : Type 1} {𝓤 : Ura M} {𝓛 : Logic 𝓤} {K : Type 0} {Γ : List (Item 𝓤)} {G : Goal 𝓤 𝓛.H} → K → (R : RattleType) (x : R.Denot) (field : Val)
    → Step K 𝓛 (‵ ((Struct (record { name = []; args = []; types = []; fields = R ∷ [] })).own_val (x, tt) (around field ∷ [])) ∷ Γ) G (‵ (R.own_val x (field ∷ [])) ∷ Γ) G
made t R x field = step (λ s.
    nothing t $ move t (1 ∷ 0 ∷ []) $ fjoin t $ feq_i t (List Val) (around field ∷ []) (around field ∷ []) refl $ fjoin t $
    fpack t (Valss (R ∷ [])) (within (record { name = []; args = []; types = []; fields = R ∷ [] }) (x, tt) (around field ∷ [])) (field ∷ [], tt) $ s)
