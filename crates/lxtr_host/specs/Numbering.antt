-- The number of an answer as the code makes it: each mark adds what it stands for if it is set, and each case has its number.
use Rattle.std.specs.Prelude.{ℕ, ◌+◌, ◌*◌, ◌≡◌, refl, Bool, true, false, Option}
use mir.Val.{bool_byte}
use Rattle.lxtr_spec.specs.HostNumbers.{host_number, fault_numbered, reason_numbered}
use Rattle.lxtr_spec.specs.declared.Fault.{Fault}
use Rattle.lxtr_spec.specs.declared.Reason.{Reason}

pub number_added : (k n : ℕ) (more valued : Bool) → k * 0x100_0000_0000 + bool_byte more * 0x2_0000_0000 + bool_byte valued * 0x1_0000_0000 + n ≡ host_number k more valued n
unfolding host_number
number_added k n true true = refl
number_added k n true false = refl
number_added k n false true = refl
number_added k n false false = refl

-- the number for a fault and for a reason, by its case
by_case : {A : Type 0} (number : A → ℕ) (x y : A) (n : ℕ) → x ≡ y → n ≡ number y → n ≡ number x
by_case number x y n e h = rw e h

pub fault_case : (f g : Option Fault) (n : ℕ) → f ≡ g → n ≡ fault_numbered g → n ≡ fault_numbered f
fault_case = by_case fault_numbered

pub reason_case : (k : ℕ) (r s : Option Reason) (n : ℕ) → r ≡ s → n ≡ reason_numbered k s → n ≡ reason_numbered k r
reason_case k = by_case (reason_numbered k)
