-- A nursery after a stop has promoted its objects.
use Rattle.nmgc_object.specs.declared.layout.Nursery.{Nursery}

-- a nursery without objects
abbrev pub emptied : Nursery → Nursery
emptied nursery = record nursery { top = nursery.base }
