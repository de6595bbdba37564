-- What cards name by a code: how many there are, and the fault of a card that names what is not there.
use Rattle.std.proofs.Common.{◌≡◌, ◌≤◌, ℕ, List, length, Some, None, refl, sym, subst, inr, arith}
use Rattle.std.proofs.lemmas.List.{length-map}
use Rattle.pc_cards.specs.declared.sort.Sort.{Sort}
use Rattle.pc_cards.specs.declared.sort.Sort.TheVariants.{Plan, Tasks}
use Rattle.pc_deck.specs.declared.limits.TheConstants.{MAX_TASK_ITEMS, MAX_TASKS}
use Rattle.pc_model.specs.declared.limits.TheConstants.{MAX_ACCOUNTS, MAX_ACTIVITIES, MAX_EVENTS, MAX_ITEMS, MAX_RESOURCES}
use Rattle.pc_deck.specs.Deck.{Deck, named_among}
use Rattle.pc_deck.specs.Kinds.{limit_of}
use Rattle.pc_deck.specs.Target.{IsUnknown, target_codes}
use Rattle.pc_deck.specs.Within.{IsUpTo, IsWithin}
use Rattle.pc_faults.specs.Faults.{unknown_name}
use Rattle.pc_faults.specs.First.{IsFirstFault, IsNoLater}
use Rattle.pc_faults.specs.declared.fault.Fault.{Fault}
use Rattle.pc_faults.specs.declared.kind.Kind.{Kind}
use Rattle.pc_faults.specs.declared.kind.Kind.TheVariants as kinds
use Rattle.pc_faults.specs.declared.target.Target.{Target}
use Rattle.pc_faults.specs.declared.target.Target.TheVariants.{Event, Item, Account, Activity, Task, Resource}

-- the kind of the cards that have the codes
abbrev kind_of : Target → Kind
kind_of Event = kinds.Event
kind_of Item = kinds.Wbs
kind_of Account = kinds.Acct
kind_of Activity = kinds.Act
kind_of Task = kinds.Task
kind_of Resource = kinds.Res

up_to : (most n : ℕ) → most ≤ 4294967295 → IsUpTo (Some most) n → n ≤ 4294967295
up_to most n fits few = let within : n ≤ most = few in omega (arith, within, fits)

-- the greatest number of cards of each of these kinds fits into a number
fits_u32 : (sort : Sort) (target : Target) (n : ℕ) → IsUpTo (limit_of sort 2 (kind_of target)) n → n ≤ 4294967295
fits_u32 Plan Event n few = up_to MAX_EVENTS n (omega arith) few
fits_u32 Plan Item n few = up_to MAX_ITEMS n (omega arith) few
fits_u32 Plan Account n few = up_to MAX_ACCOUNTS n (omega arith) few
fits_u32 Plan Activity n few = up_to MAX_ACTIVITIES n (omega arith) few
fits_u32 Plan Task n few = up_to 0 n (omega arith) few
fits_u32 Plan Resource n few = up_to MAX_RESOURCES n (omega arith) few
fits_u32 Tasks Event n few = up_to 0 n (omega arith) few
fits_u32 Tasks Item n few = up_to MAX_TASK_ITEMS n (omega arith) few
fits_u32 Tasks Account n few = up_to MAX_ACCOUNTS n (omega arith) few
fits_u32 Tasks Activity n few = up_to 0 n (omega arith) few
fits_u32 Tasks Task n few = up_to MAX_TASKS n (omega arith) few
fits_u32 Tasks Resource n few = up_to MAX_RESOURCES n (omega arith) few

pub few_targets : (sort : Sort) (deck : Deck) → IsWithin sort deck → (target : Target) → length (target_codes deck target) ≤ 4294967295
few_targets sort deck within Event = omega (arith, fits_u32 sort Event _ (within kinds.Event).few, length-map deck.events (λ event. event.code))
few_targets sort deck within Item = omega (arith, fits_u32 sort Item _ (within kinds.Wbs).few, length-map deck.items (λ item. item.code))
few_targets sort deck within Account = omega (arith, fits_u32 sort Account _ (within kinds.Acct).few, length-map deck.accounts (λ account. account.code))
few_targets sort deck within Activity = omega (arith, fits_u32 sort Activity _ (within kinds.Act).few, length-map deck.acts (λ act. act.code))
few_targets sort deck within Task = omega (arith, fits_u32 sort Task _ (within kinds.Task).few, length-map deck.tasks (λ task. task.code))
few_targets sort deck within Resource = omega (arith, fits_u32 sort Resource _ (within kinds.Res).few, length-map deck.resources (λ resource. resource.code))

-- a name that is unknown is the first fault of its kind
pub first_unknown : (deck : Deck) (target : Target) (row : ℕ) (code : List ℕ) → named_among (target_codes deck target) code ≡ None →
    IsFirstFault (IsUnknown deck target row code) (unknown_name target row code)
first_unknown deck target row code none = record { holds = record { missing = none; told = refl }; least = by }
  where
    by : (other : Fault) → IsUnknown deck target row code other → IsNoLater (unknown_name target row code) other
    by other is = subst (IsNoLater (unknown_name target row code)) (sym is.told) (inr (refl, omega arith))
